-- Laws of the table that fresh leaves.
pub mod Setting
