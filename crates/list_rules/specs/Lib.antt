pub mod Lines
pub mod ReadList
