pub mod ViewWords
pub mod View
pub mod Shown
pub mod inside
