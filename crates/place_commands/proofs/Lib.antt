mod Imports
pub mod Undone
pub mod OnePlayAnswer
pub mod ScriptFiles
pub mod HonestPlaces
pub mod Runs
pub mod ScriptCommands
pub mod MakeCommand
pub mod PlayCommand
pub mod Repairs
pub mod RepairCommand
pub mod RunCommand
