pub mod Order
pub mod Putting
mod Placing
pub mod Fronts
