pub mod Names
pub mod Collected
pub mod Facts
pub mod Rules
pub mod Seen
