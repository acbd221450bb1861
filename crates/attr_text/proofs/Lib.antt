pub mod Reading
pub mod Regroup
pub mod Overwritten
pub mod Lines
pub mod SetLines
