pub mod Taken
pub mod Streams
pub mod Ending
