pub mod InImage
pub mod Slots
