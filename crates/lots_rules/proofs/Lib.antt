pub mod Steps
pub mod Mapped
pub mod Listing
pub mod Items
pub mod Answers
pub mod Claims
