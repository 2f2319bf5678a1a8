-- The laws of `files`.
pub mod RecordExamples
