-- The definitions of `table`.
pub mod Column
pub mod Reading
pub mod Places
pub mod Answers
pub mod Parts
pub mod TableBytes
