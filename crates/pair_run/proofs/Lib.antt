pub mod OwnRuns
pub mod PairTexts
pub mod SliceTexts
