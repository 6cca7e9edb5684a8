pub mod Run
pub mod Slices
