pub mod Numbered
pub mod Index
