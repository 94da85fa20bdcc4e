pub mod Plan
pub mod Building
pub mod Listed
pub mod Model
pub mod Memories
pub mod Whole
pub mod Rebuilding
pub mod Growing
