pub mod Taking
pub mod Outcomes
