-- The laws of `writer`.
pub mod WroteLaws
pub mod RowTextLaws
pub mod RowKindLaws
pub mod RowBitLaws
pub mod RowCountLaws
pub mod ColumnPutLaws
pub mod ColumnLaws
pub mod SlotRunLaws
pub mod PlainLaws
pub mod FitLaws
