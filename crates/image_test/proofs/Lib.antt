-- What the whole of an image's slots shows, and its trees test by test.
mod Living
mod Buckets
mod Joined
pub mod Checked
