pub mod Parts
pub mod Save
pub mod Restore
