mod Imports
pub mod Ascending
pub mod Taken
pub mod OneEntry
pub mod Forms
pub mod Keys
pub mod Limits
pub mod Unsealings
pub mod Fillers
