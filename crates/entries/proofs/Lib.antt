-- Laws of the order of entries and of an insertion among them.
pub mod Keys
pub mod Inserting
