pub mod Spelling
pub mod CarryingOut
