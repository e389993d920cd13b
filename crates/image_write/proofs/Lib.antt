-- What is put bucket by bucket, and the parts of an image.
mod Runs
mod Parts
mod Replies
