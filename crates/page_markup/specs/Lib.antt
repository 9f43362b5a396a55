pub mod Names
pub mod Escaping
pub mod Elements
pub mod WellFormed
