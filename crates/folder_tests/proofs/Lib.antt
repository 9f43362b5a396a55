pub mod Fresh
pub mod Nodes
pub mod Parts
