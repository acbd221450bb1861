pub mod Pieces
pub mod ListingsTold
pub mod Same
