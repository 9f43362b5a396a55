pub mod Totals
pub mod Adding
