mod Imports
pub mod Pieces
pub mod Makers
pub mod Below
pub mod Chained
pub mod OneStep
pub mod OneVerdict
pub mod OneReport
pub mod Lower
pub mod PlainRules
