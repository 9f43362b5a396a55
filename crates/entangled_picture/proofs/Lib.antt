mod Imports
pub mod Grown
pub mod StampOrder
pub mod OneMark
