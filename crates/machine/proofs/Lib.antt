pub mod Rows
pub mod Alike
pub mod Numbers
