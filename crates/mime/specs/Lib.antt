pub mod Rfc2045
pub mod Values
pub mod Kinds
pub mod Reads
pub mod Meanings
pub mod Seen
pub mod Tokens
