pub mod HostDirectory
pub mod MapLaws
pub mod FreeFrames
