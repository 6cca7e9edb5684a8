mod BlockBytes
mod Sequence
