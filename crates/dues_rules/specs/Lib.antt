pub mod Board
pub mod Listed
