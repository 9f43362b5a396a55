mod Imports
pub mod FileSteps
pub mod EndorseCommand
pub mod EndorsedCommand
pub mod OfficeCommand
