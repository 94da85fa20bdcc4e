pub mod Quiet
pub mod Reach
pub mod Strides
