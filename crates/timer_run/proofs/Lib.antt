pub mod RoundParts
pub mod RoundLaws
