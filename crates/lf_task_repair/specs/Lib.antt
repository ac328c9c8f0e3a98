pub mod Repairs
pub mod Reports
