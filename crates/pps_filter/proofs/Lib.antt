pub mod Before
pub mod Escapes
pub mod Plain
pub mod Seen
