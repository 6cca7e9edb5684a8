pub mod Digits
pub mod Exits
pub mod Lines
pub mod Rows
pub mod Summary
pub mod Text
pub mod Trace
