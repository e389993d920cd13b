-- The laws of the sets, of the parts of an area, and of a slot with its halves.
pub mod Sets
pub mod Parts
pub mod Comparing
pub mod Steps
