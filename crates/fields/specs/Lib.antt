pub mod Near
pub mod Numerals
pub mod Splits
