pub mod Numbers
pub mod Signed
pub mod Keeping
pub mod Verified
pub mod Answered
pub mod InTurn
