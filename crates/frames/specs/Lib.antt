pub mod Framing
pub mod Frames
