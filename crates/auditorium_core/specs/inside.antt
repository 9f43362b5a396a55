pub mod Promise
pub mod Demonstrating
pub mod Meaning
