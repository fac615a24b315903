pub mod Listed
pub mod Kept
