pub mod Offices
pub mod Endorsements
