pub mod Names
pub mod Boxes
pub mod Lists
pub mod Examples
