-- The first slot that is not what a layout puts there, half by half.
pub mod Faults
pub mod Halves
