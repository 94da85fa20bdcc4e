pub mod Bytes
pub mod Faults
pub mod Numbers
pub mod Keys
pub mod Fields
pub mod Tokens
pub mod Shown
