pub mod TwoLevels
pub mod Signs
pub mod Calls
pub mod Signings
pub mod inside
