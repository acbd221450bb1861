pub mod Whole
pub mod Lookups
pub mod United
