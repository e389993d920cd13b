-- What numbers read byte by byte are.
pub mod Numbers
