pub mod Starting
pub mod Behind
pub mod Releasing
