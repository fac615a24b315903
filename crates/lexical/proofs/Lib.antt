pub mod Merging
pub mod Examples
