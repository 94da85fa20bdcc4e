pub mod Shapes
pub mod Rows
pub mod FirstLine
pub mod Named
pub mod CountLine
