pub mod Goes
pub mod Steps
pub mod Endings
pub mod Marks
pub mod Moves
pub mod Wholes
pub mod Renames
pub mod Creations
