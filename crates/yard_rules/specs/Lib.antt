pub mod Line
pub mod Reply
pub mod Conversation
