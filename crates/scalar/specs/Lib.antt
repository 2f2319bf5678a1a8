-- The definitions of `scalar`.
pub mod Types
pub mod Integer
pub mod Float
pub mod WholePart
pub mod Nearest
pub mod Text
pub mod Entry
pub mod Pair
pub mod Not
pub mod Negative
pub mod IsNotNull
pub mod Cast
pub mod TryCast
pub mod Compare
pub mod Value
pub mod Casts
pub mod Order
