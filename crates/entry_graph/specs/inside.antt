-- Definitions that no public clause needs.
pub mod Distinct
pub mod Tables
