-- The first fault of some slots, entries in the place of ranked rows, and tags that several slots have.
pub mod Faults
pub mod Ranking
pub mod Repeated
pub mod Duplicates
pub mod Arranging
pub mod Filling
