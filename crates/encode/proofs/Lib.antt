pub mod Adds
pub mod Sizes
pub mod Codes
