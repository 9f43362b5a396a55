pub mod Sequences
pub mod Mending
pub mod Outcomes
pub mod Laws
pub mod inside
