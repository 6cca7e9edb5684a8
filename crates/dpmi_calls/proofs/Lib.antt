mod Bytes
pub mod Texts
mod Places
mod Results
mod RowLists
mod Turns
mod Starts
mod StopLists
