pub mod Work
pub mod Jobs
pub mod Bounds
pub mod Examples
