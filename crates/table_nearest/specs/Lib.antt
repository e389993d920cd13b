pub mod Asking
pub mod Tallies
