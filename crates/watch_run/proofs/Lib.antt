pub mod HitLaws
pub mod NextTouches
pub mod Runs
pub mod TurnParts
pub mod WatchedTurns
