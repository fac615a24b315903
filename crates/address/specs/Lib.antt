pub mod Rfc5322
pub mod Reads
pub mod Lists
pub mod Seen
pub mod Dots
pub mod Paths
pub mod Addresses
