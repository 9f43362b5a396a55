mod Imports
pub mod OneEntry
pub mod Additions
pub mod OneSummary
pub mod Ends
pub mod Grown
pub mod Judged
pub mod Finds
pub mod Wide
pub mod AfterBase
