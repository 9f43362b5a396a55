pub mod ScriptFile
pub mod Made
pub mod Play
pub mod Repair
pub mod Run
pub mod inside
