pub mod Numbers
pub mod Paths
pub mod Regroup
pub mod SetLines
