pub mod Operators
pub mod Runs
pub mod Turns
pub mod Exactness
pub mod Spelling
