pub mod Words
pub mod Lines
pub mod Sheets
pub mod Resume
