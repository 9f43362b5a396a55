-- Definitions that no public clause needs.
pub mod Held
