-- Laws of the tests of a lent table, for the code.
pub mod Sizing
pub mod Inside
pub mod Framing
