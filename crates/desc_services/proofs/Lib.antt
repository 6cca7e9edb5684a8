pub mod ServiceLaws
pub mod FarBytes
pub mod PutLaws
pub mod WithRun
