mod Rows
mod Noted
pub mod Answered
mod OfVersion1
