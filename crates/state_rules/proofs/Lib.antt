-- Where the parts lie, what a save leaves, and what a restore makes of it.
pub mod Parts
pub mod Saved
pub mod Restored
mod Worked
