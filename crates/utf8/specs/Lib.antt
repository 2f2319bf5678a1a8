-- The definitions of `utf8`.
pub mod WellFormed
pub mod Sequence
pub mod Encoding
pub mod Ascii
pub mod Answers
