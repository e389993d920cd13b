mod Widths
pub mod Runs
