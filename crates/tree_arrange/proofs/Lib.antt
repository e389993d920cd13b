-- A part as a build arranges it.
pub mod Arranging
