pub mod Row
pub mod Validity
pub mod Distance
