-- The definitions of `writer`.
pub mod Answer
pub mod Written
pub mod Slots
pub mod Write
pub mod Writing
