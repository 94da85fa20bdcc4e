pub mod Parting
pub mod Cutting
pub mod Named
