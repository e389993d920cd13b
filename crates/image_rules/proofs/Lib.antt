-- The image's codec in both directions, the checks of a load, and what a loaded table shows.
pub mod Bytes
pub mod Counting
pub mod Blocks
pub mod ReadBack
pub mod Numbers
pub mod GivesBack
pub mod EachBucket
pub mod Lengths
pub mod Bounds
pub mod TreesPass
pub mod SlotsPass
pub mod Accepting
pub mod ReadTests
pub mod LoadedTable
pub mod Translating
