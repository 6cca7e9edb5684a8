pub mod Register
pub mod Word
