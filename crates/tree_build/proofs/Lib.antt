-- The halves of a part.
mod Halving
