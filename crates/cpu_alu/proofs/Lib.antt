pub mod Moves
pub mod Rotates
pub mod Signs
pub mod Turns
