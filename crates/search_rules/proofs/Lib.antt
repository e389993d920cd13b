-- The laws of range and nearest over one tree: over slots that guide, both are a scan; what is kept; what the counts are.
pub mod Selecting
pub mod Pruning
pub mod RangeLaws
pub mod Ascending
pub mod Keep
pub mod Keeping
pub mod NearestLaws
pub mod Reaching
pub mod Beyond
