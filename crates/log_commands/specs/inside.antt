-- Definitions that no public clause needs.
pub mod EntryNames
pub mod Checking
pub mod Watching
pub mod PlaceFiles
