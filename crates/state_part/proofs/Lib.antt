-- Which numbers are names, and the bytes from a part's start to its end.
pub mod Names
pub mod Places
