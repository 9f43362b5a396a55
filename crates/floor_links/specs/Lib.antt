pub mod Rows
pub mod Sendings
pub mod Fresh
pub mod inside
