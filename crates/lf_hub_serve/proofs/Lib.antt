pub mod Services
pub mod Records
pub mod Runs
mod Closings
