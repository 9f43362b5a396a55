-- Definitions that no public clause needs.
pub mod Base
pub mod Following
pub mod Found
pub mod Grown
pub mod Kept
pub mod KeptOf
pub mod Seen
pub mod Unsummed
pub mod Appended
pub mod Stamps
