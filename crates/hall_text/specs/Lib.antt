pub mod Words
pub mod Spans
pub mod Places
pub mod Lines
pub mod Tokens
