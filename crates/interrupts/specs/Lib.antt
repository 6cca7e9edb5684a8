pub mod Delivery
pub mod RealFrames
pub mod Worlds
