-- The bound and the entries kept under it, and the steps of a search on an area.
pub mod Bounds
mod TakingIn
pub mod Steps
mod LeafSteps
mod Passing
