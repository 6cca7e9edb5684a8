pub mod EnterLaws
pub mod Loaded
