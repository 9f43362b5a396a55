pub mod Summary
pub mod Live
pub mod Adding
pub mod Same
pub mod inside
