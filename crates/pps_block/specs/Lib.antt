pub mod Inside
pub mod Matching
pub mod Printed
pub mod Queue
