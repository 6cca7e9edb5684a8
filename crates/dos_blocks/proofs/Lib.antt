pub mod RunPuts
pub mod Searches
pub mod Splicing
pub mod ServiceLaws
pub mod SelectorLaws
pub mod BlockRuns
pub mod OneStep
pub mod NamedLaws
