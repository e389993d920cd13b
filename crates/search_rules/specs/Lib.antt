pub mod Range
pub mod Reached
pub mod Nearest
