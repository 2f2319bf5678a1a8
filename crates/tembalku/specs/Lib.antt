-- The definitions of `tembalku`.
pub mod Codes
