-- The laws of `builder`.
pub mod BuilderLaws
