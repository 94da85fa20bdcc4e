pub mod Same
pub mod Searching
pub mod Progressing
pub mod Conserving
pub mod Later
pub mod Choosing
pub mod Showing
