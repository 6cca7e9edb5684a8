pub mod Step
pub mod Touched
pub mod Windows
