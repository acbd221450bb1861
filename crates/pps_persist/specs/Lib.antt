pub mod Judged
pub mod Held
pub mod Begun
pub mod Loads
pub mod Sent
pub mod Files
