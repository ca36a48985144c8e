pub mod Basics
pub mod Decisions
pub mod Frame
