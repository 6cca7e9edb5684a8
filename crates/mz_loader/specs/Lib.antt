pub mod Header
pub mod Refusal
pub mod Start
