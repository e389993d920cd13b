pub mod Refusing
pub mod Drafting
pub mod ByPlace
