mod Imports
pub mod LineFacts
pub mod Parts
pub mod ReadTexts
pub mod Trusted
pub mod Listings
pub mod LinesRead
pub mod Canonicals
