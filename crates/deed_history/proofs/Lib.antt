pub mod Entries
pub mod Told
pub mod Members
pub mod Deciding
pub mod VersionOne
