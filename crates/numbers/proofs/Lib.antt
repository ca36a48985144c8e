pub mod Cuts
pub mod Halves
pub mod Same
pub mod Contents
pub mod Compares
