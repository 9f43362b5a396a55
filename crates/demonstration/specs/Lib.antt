pub mod Kept
pub mod Shown
pub mod OneShown
pub mod Lines
