pub mod Notes
pub mod Causes
pub mod Table
pub mod State
pub mod VersionOne
pub mod CauseWords
