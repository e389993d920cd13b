pub mod Finding
pub mod Forms
