pub mod Faults
pub mod BadLines
pub mod Served
pub mod Lines
