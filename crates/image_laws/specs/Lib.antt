pub mod Images
pub mod Savable
pub mod Unused
pub mod Restored
pub mod Laws
