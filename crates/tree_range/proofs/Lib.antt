-- What a range search hands on adds up.
pub mod Collecting
mod Leaves
