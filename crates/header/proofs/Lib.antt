pub mod Telling
pub mod Agreement
