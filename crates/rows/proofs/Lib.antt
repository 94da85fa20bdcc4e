mod Groups
pub mod Sides
