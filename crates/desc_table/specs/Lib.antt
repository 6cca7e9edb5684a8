pub mod Rows
pub mod Unpacked
