mod Holding
pub mod Pieces
pub mod Whole
