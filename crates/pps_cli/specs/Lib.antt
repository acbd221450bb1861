pub mod Sessions
pub mod Reports
pub mod Commands
