mod Imports
pub mod Ticks
pub mod Causes
pub mod Hands
pub mod Ears
pub mod Made
pub mod Linked
pub mod EarLoops
pub mod Works
pub mod Gathers
pub mod Beginnings
pub mod Drops
pub mod FirstStations
pub mod Parted
pub mod Rests
pub mod Collected
pub mod Worked
pub mod Counted
