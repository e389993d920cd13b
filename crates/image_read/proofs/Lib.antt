-- What numbers read byte by byte and fields read one by one are, and where the slots of an image stand.
mod Numbers
pub mod Places
