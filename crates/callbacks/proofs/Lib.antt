pub mod SoundEntries
pub mod Started
pub mod Served
pub mod StackAsked
