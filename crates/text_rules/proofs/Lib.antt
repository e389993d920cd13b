pub mod Digits
pub mod Numerals
pub mod Parts
pub mod Signs
