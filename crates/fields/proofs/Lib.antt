pub mod Counting
pub mod Splitting
pub mod Filling
mod Reading
mod Words
