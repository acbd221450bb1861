pub mod Searches
pub mod Reported
pub mod Lines
pub mod Texts
pub mod Ends
