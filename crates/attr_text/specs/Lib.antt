pub mod ReadWrite
pub mod Written
pub mod Printed
