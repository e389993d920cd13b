-- Laws of the finding of a tag, slot by slot and bucket by bucket.
pub mod Seeking
