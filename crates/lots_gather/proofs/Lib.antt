pub mod Places
pub mod Ordering
