pub mod Replaying
pub mod Sends
