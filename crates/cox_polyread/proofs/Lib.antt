pub mod ReadNumerals
pub mod Splits
pub mod TermTexts
pub mod JoinedTerms
pub mod ReadTexts
pub mod ReadTerms
