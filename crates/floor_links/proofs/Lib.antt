mod Imports
pub mod Sent
pub mod Ends
pub mod Ways
pub mod Makings
