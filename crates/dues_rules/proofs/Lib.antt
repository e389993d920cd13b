-- Laws of the board and of a list's dues.
mod WorkedWeights
mod WorkedLists
pub mod Rates
pub mod Replies
