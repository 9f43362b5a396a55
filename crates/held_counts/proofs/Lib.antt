pub mod Reached
pub mod Rounds
