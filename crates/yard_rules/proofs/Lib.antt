mod Computing
pub mod Example
mod Worked
pub mod Parts
pub mod ReadBack
pub mod Ended
pub mod Fitting
