-- The theorems of `specs/Claims`.
pub mod Theorems
mod Serving
mod NoShorter
mod Kept
