pub mod Lengths
pub mod After
pub mod Whole
pub mod Answered
pub mod Listed
pub mod Woken
pub mod Replied
pub mod Followed
