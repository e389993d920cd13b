pub mod Widths
pub mod Moved
