pub mod Columns
pub mod Fits
pub mod Tallies
pub mod Labels
