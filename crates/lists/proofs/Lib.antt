-- The laws of lists: what holds of all elements and of pairs, tests as facts, lists without a number twice, and totals.
pub mod Lists
pub mod Tests
pub mod Distinct
pub mod Totals
