pub mod Header
pub mod SoFar
