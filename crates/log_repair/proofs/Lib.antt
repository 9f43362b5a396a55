mod Imports
pub mod Events
pub mod OneWay
pub mod Plays
pub mod Bearers
pub mod Short
pub mod Making
pub mod Mended
pub mod Going
pub mod Turns
