pub mod KeptWorlds
pub mod ReturnPlans
pub mod Alone
pub mod SoundAnswers
