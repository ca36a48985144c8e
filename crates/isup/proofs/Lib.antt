pub mod Same
pub mod Coded
