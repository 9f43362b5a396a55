mod Imports
pub mod Trees
pub mod Raws
pub mod Forms
pub mod Walk
pub mod Fits
pub mod One
