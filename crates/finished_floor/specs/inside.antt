pub mod Fates
pub mod Steps
pub mod Begun
