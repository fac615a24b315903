pub mod Laws
pub mod Counting
pub mod Numbers
