pub mod RosterText
pub mod Machines
pub mod Reading
pub mod inside
