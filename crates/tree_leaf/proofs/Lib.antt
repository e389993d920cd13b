-- What a few slots' distances say of a visit.
pub mod Known
pub mod Halves
pub mod Passing
