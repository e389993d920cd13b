pub mod Bytes
pub mod Write
pub mod Read
pub mod Trees
pub mod Load
pub mod Translate
