pub mod Unread
pub mod Parts
