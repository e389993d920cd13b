-- The laws of this crate's definitions, for its own proofs and for the crates above.
-- Codec: rows and their fields; Laws: the metrics; Values: what a parameter's type tells; the others are what these stand on.
pub mod Elements
pub mod Codec
pub mod Apart
pub mod Words
pub mod Digits
pub mod Values
pub mod Ranges
pub mod Laws
