pub mod Parts
pub mod Making
pub mod Refusing
