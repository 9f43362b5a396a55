mod Imports
pub mod Digests
pub mod Fresh
pub mod Wished
pub mod Leaning
pub mod Led
pub mod Asked
pub mod TwoSided
pub mod P3
pub mod AllRules
pub mod Excluded
