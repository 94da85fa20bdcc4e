pub mod Waiting
pub mod Calls
