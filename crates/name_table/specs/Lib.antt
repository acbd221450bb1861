pub mod Standing
pub mod Agrees
pub mod Laws
pub mod Listed
