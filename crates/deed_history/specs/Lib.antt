pub mod Deeds
pub mod Held
pub mod VersionOne
