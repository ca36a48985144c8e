pub mod Refusals
pub mod Digits
pub mod Reading
pub mod Drafts
pub mod Comparing
