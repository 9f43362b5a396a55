-- Definitions that no public clause needs.
pub mod Beginning
pub mod Gathering
