pub mod Entry
pub mod FarFrames
pub mod Rows
pub mod Switches
