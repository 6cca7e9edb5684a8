pub mod SoundGates
pub mod FarStates
pub mod SwitchLaws
