pub mod Hopping
pub mod Reaching
pub mod Staying
pub mod Opening
pub mod Ending
