pub mod Fed
pub mod Matches
