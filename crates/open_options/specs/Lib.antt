pub mod Elements
pub mod Refused
pub mod Seen
pub mod Added
