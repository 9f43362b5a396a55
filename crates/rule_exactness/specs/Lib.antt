pub mod TwoSided
pub mod Exact
pub mod ExactP3
