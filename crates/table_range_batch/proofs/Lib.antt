-- What a batch goes by, what its buckets add up to, its parts put in order, and its reply.
mod Asking
mod Adding
mod Ordering
mod Answering
mod Replying
