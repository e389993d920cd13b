pub mod Feeding
mod Standing
pub mod Conversation
