pub mod Examples
pub mod Folded
pub mod Trimming
pub mod Stopping
pub mod Typing
