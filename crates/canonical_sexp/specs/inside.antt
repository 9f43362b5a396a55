pub mod SexpFalls
pub mod Tokens
pub mod Scanning
pub mod Spelt
pub mod Writing
