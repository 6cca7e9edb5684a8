pub mod ByMode
pub mod Delivery
pub mod Memory
pub mod Return
pub mod StepMemory
pub mod Trip
pub mod Worlds
