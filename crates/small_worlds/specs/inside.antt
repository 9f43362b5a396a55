-- Definitions that no public clause needs.
pub mod Digests
pub mod Paths
