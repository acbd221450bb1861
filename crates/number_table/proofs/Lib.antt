pub mod Standing
pub mod Entries
pub mod Edits
pub mod Held
pub mod Told
