pub mod Lots
pub mod Drafting
pub mod Claims
