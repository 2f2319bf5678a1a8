-- The laws of `layout`.
pub mod TestLaws
pub mod ResultLaws
pub mod BytesLaws
pub mod FieldLaws
pub mod BitLaws
pub mod CountLaws
pub mod NumberLaws
pub mod PartLaws
pub mod PlaceLaws
pub mod PutLaws
pub mod RefusalLaws
pub mod AnswerLaws
