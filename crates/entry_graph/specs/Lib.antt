pub mod Given
pub mod EntryGraph
pub mod Answers
pub mod inside
