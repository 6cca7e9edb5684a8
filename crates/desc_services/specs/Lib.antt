pub mod MayPut
pub mod Rows
