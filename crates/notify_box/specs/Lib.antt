pub mod Roomed
pub mod Changes
pub mod ByNumber
pub mod OwnHandles
pub mod Standing
pub mod ChangeLaws
pub mod Connections
pub mod ConnectionLaws
