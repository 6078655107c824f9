pub mod Told
pub mod Questions
pub mod Reports
