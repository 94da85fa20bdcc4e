pub mod Lists
pub mod Faults
pub mod Merging
pub mod Members
pub mod Tables
pub mod Trays
