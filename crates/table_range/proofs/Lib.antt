-- The buckets' visits add up to the table's, and what they leave is the reply.
pub mod Adding
mod Replying
