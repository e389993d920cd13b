-- The library's order of tuples, and the order by keys of the rules.
pub mod Tuples
