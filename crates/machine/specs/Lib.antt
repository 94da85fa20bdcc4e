pub mod Spent
pub mod Model
pub mod Views
