pub mod Answer
pub mod Causes
pub mod Laws
pub mod Load
pub mod Pairs
pub mod Runs
pub mod Text
pub mod Words
