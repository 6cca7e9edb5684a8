pub mod OpcodeMap
pub mod Slots
pub mod Prefixes
pub mod Addressing
pub mod Operands
pub mod Grammar
pub mod Kinds
pub mod Shapes
