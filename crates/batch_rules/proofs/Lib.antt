-- Laws of a batch: its count, slot by slot and over a table, and the lists in its parts.
pub mod Together
pub mod Counts
pub mod Lists
