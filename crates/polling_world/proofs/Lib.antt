mod Imports
pub mod NextTold
pub mod OnePlay
pub mod OneLeft
pub mod Rosters
pub mod Histories
pub mod Ruled
pub mod MadeEntries
pub mod Keeping
pub mod Growing
pub mod Placing
pub mod Stepping
pub mod WorldSteps
pub mod WorldMaking
pub mod Played
pub mod Taking
pub mod Ranking
pub mod Sorting
