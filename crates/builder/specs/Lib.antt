-- The definitions of `builder`.
pub mod Builder
pub mod BuilderStruct
