pub mod Ends
pub mod FrameLaws
pub mod Encoded
pub mod Front
