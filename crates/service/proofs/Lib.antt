pub mod Steps
pub mod Releasing
pub mod Numbering
pub mod Serving
pub mod Accounting
pub mod Going
mod Showing
