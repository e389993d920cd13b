-- Laws of a rate, of a list weighed tag by tag, and of its dues held and written.
pub mod Rating
pub mod Weighing
pub mod Holding
