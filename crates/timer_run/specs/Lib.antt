pub mod Rounds
pub mod Timer
