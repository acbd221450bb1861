pub mod FrameEvents
pub mod FrameStreams
pub mod Fronts
pub mod Gathering
pub mod Pieces
