-- The buckets' searches, one after the other, are the table's search, and what they leave is the reply.
mod Searching
mod Replying
