pub mod Sound
pub mod Growing
mod Rebuilt
pub mod Filling
