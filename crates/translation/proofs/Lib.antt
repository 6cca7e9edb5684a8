pub mod Begun
pub mod HandedOver
pub mod KeptWorld
pub mod SoundCalls
pub mod PutPart
pub mod StackWords
