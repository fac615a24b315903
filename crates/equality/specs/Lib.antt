pub mod Equality
pub mod Distinct
