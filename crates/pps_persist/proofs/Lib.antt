pub mod Restored
pub mod Added
pub mod Judging
pub mod Taken
pub mod Cuts
pub mod Inputs
pub mod Sendings
pub mod FromFiles
