-- Laws of the item found and marked.
pub mod Leaving
pub mod Marking
