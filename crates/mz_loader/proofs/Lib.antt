pub mod Relocating
pub mod SoundStart
