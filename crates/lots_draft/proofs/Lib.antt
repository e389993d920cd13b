pub mod Writing
pub mod LeadingNext
pub mod Awaiting
