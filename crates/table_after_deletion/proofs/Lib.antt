-- Laws of buckets united in one, and of the room that the bucket built has for them.
pub mod Uniting
pub mod Fitting
