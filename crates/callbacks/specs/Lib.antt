pub mod Callbacks
pub mod HandOver
pub mod Services
