pub mod ReadNumerals
pub mod PolynomialReading
