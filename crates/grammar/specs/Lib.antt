pub mod Lines
pub mod Writing
pub mod Reading
pub mod Widths
pub mod Laws
