pub mod LawfulReaders
pub mod WholeNumbers
pub mod HeadReaders
pub mod InsnReaders
pub mod Encodings
pub mod Answering
