pub mod BitLaws
pub mod Elements
pub mod OnRegisters
pub mod Parts
