-- The definitions of `layout`.
pub mod Result
pub mod Refusals
pub mod Bytes
pub mod Field
pub mod Place
pub mod Put
