pub mod Answering
pub mod Calls
pub mod DosBytes
pub mod Multiplex
pub mod Kept
