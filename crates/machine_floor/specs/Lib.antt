pub mod Stations
pub mod Viewing
pub mod Turns
pub mod Floors
pub mod Fresh
pub mod inside
