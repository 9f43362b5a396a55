-- Definitions that no public clause needs.
pub mod Kept
pub mod Below
