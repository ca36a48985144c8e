pub mod Faults
pub mod Values
pub mod Parameters
pub mod Optional
pub mod Messages
pub mod Reading
