pub mod Clients
pub mod Memory
pub mod Runs
pub mod States
pub mod Stops
pub mod Turns
