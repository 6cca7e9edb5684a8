pub mod Runs
mod Services
pub mod Touches
mod HandOver
mod Frames
pub mod Growth
mod NoTraps
pub mod Nested
mod RealCalls
mod TrapBytes
pub mod WindowStarts
pub mod OtherTurns
pub mod Sound
pub mod TurnLaws
