mod Imports
pub mod Tests
pub mod Cuts
pub mod Calls
pub mod Faults
pub mod ReportStatuses
pub mod CommandProofs
pub mod SameOr
