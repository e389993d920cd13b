mod Worked
pub mod Fitting
pub mod Growing
