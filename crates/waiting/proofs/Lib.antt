pub mod Cut
pub mod First
