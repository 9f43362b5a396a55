pub mod World
pub mod Writes
pub mod Placing
pub mod Ready
pub mod Sets
pub mod Asides
pub mod Leftovers
pub mod Creating
