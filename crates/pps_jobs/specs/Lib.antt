pub mod Faults
pub mod Scripts
pub mod Frames
pub mod Images
pub mod Jobs
pub mod Wording
