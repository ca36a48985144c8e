pub mod Records
pub mod Cells
