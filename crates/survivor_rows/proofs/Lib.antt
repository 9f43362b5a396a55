mod Imports
pub mod Survivors
