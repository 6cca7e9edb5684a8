pub mod Budget
pub mod Entry
pub mod FreeList
pub mod Mapping
pub mod Walk
