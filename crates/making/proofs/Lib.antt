pub mod Exact
pub mod Refuses
