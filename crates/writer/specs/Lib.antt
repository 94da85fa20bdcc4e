pub mod Places
pub mod Outcome
