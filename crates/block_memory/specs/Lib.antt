pub mod BlockChanges
pub mod BlockSizes
