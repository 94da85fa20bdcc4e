pub mod Lowest
pub mod Arrivals
pub mod Changes
pub mod Assigning
pub mod State
