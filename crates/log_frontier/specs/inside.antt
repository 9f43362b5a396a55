-- Definitions that no public clause needs.
pub mod Noting
pub mod Without
