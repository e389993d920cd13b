-- A part after the writer and the length, and the states after the part.
mod Replies
mod Parts
mod Whole
