pub mod Examples
pub mod Comparing
pub mod Grammar
pub mod Finding
