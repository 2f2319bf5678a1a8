-- The laws of `table`.
pub mod TableInversions
pub mod StandLaws
pub mod TableTyped
pub mod OffsetLaws
pub mod PartsLaws
pub mod NullLaws
pub mod ColumnLaws
pub mod AloneLaws
pub mod ReadLaws
pub mod ReadBack
pub mod WholeBytes
pub mod PlaceLaws
pub mod EntryLaws
pub mod RefusalLaws
pub mod CountExamples
