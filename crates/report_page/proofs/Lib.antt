mod Imports
pub mod Pieces
pub mod LogDigests
