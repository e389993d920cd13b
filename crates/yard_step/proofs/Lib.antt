mod Opening
pub mod Longer
