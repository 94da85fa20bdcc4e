pub mod Laws
pub mod Sorted
pub mod Insertion
pub mod Bounded
