pub mod Abnf
pub mod Classes
pub mod Exact
pub mod Turns
pub mod Strings
