pub mod FirstIndex
pub mod FreeRun
pub mod Reasons
pub mod Rows
