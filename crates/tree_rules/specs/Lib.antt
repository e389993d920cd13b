pub mod Sorting
pub mod Layout
pub mod Guided
