pub mod Decimal
pub mod Output
mod Stored
