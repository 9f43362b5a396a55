mod Imports
pub mod Places
pub mod DistinctFacts
pub mod TableFacts
pub mod StrayFacts
pub mod NumberFacts
pub mod LinkFacts
pub mod ForkFacts
pub mod GapFacts
pub mod GraphFacts
