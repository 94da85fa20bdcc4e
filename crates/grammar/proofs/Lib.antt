pub mod Parsing
pub mod Accepting
pub mod Appending
pub mod Reread
pub mod Placing
pub mod Bytewise
pub mod Spelling
pub mod Printing
mod Kept
pub mod Narrow
pub mod Groups
pub mod Lining
pub mod Goodness
pub mod Leading
pub mod Partwise
pub mod Widths
pub mod Returning
