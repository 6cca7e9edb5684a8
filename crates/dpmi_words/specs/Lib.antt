pub mod Command
pub mod Meaning
pub mod Numbers
pub mod OptionWords
pub mod Options
pub mod Reading
pub mod Seen
