-- The laws of `listing`.
pub mod WriteLaws
pub mod DigitLaws
pub mod FitLaws
pub mod ShownLaws
pub mod LineLaws
pub mod ListingMostLaws
pub mod WholeLaws
pub mod RunListingLaws
pub mod ListingExamples
