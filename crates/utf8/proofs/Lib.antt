-- The laws of `utf8`.
pub mod SequenceLaws
pub mod AsciiLaws
pub mod ValidationLaws
pub mod WidthLaws
pub mod LineLaws
pub mod EncodingLaws
pub mod Utf8Examples
