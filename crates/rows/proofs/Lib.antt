-- Laws of the live ones among slots.
pub mod Selected
