-- The laws of trees, for the code and for the crates above: sorting, the layout, c(n), the test in place, and marks.
pub mod Parts
pub mod Filled
pub mod Stores
pub mod Brought
pub mod Sorting
pub mod Cost
pub mod Placed
pub mod Layouts
pub mod LastKey
pub mod InPlace
pub mod Marks
pub mod Built
