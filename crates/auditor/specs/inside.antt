-- Definitions that no public clause needs.
pub mod Places
pub mod Begun
