-- Definitions that no public clause needs.
pub mod Losses
pub mod Repaired
