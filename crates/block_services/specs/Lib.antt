pub mod Free
pub mod Gaps
pub mod Pages
pub mod Rows
pub mod Spans
