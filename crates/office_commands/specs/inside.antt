-- Definitions that no public clause needs.
pub mod Presence
pub mod Endorsing
