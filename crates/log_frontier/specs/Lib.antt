pub mod Digests
pub mod Places
pub mod inside
