pub mod Words
pub mod Lines
pub mod Texts
pub mod Answers
pub mod Transcripts
pub mod Arguments
