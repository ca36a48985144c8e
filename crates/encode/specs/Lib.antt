pub mod Sending
pub mod Writing
pub mod Worked
