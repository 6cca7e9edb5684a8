pub mod Hits
pub mod Services
pub mod Turn
pub mod Watches
