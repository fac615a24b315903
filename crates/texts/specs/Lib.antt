pub mod Rfc8098
pub mod Reads
pub mod Seen
