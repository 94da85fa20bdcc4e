pub mod Trays
pub mod Checking
pub mod Merging
