mod Imports
mod Ends
mod Records
pub mod Plays
mod Reports
pub mod OneShown
