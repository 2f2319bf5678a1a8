-- The laws of `tembalku`.
pub mod CodeLaws
