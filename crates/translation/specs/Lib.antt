pub mod HandOver
pub mod RealStack
pub mod SimulatedCall
pub mod Structure
