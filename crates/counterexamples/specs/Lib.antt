pub mod Example
pub mod WrongNames
pub mod WrongFrontier
pub mod WrongStrays
pub mod InSpite
pub mod Unchained
