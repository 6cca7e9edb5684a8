pub mod Tables
pub mod RowsSuit
pub mod WellFormed
