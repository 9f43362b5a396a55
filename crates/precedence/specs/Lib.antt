pub mod Graph
pub mod Bits
pub mod Known
pub mod inside
