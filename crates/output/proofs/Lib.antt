pub mod Given
pub mod Room
