pub mod ByteLaws
pub mod ConsoleLaws
pub mod LineLaws
pub mod SoundCalls
pub mod LeftCalls
