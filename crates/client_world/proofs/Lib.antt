mod Examples
pub mod FlagBits
pub mod NamedWords
pub mod PlaceLaws
pub mod SoundRows
pub mod SoundWrites
