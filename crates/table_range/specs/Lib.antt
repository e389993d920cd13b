pub mod Asking
pub mod Below
