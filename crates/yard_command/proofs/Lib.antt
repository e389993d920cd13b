mod Finding
mod Replies
