pub mod Commands
pub mod EitherWay
pub mod InTurn
pub mod Numbers
pub mod Walks
