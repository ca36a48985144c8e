pub mod Rows
pub mod Ranges
pub mod Codes
pub mod Coding
pub mod Groups
