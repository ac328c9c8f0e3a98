pub mod Commands
pub mod Outputs
pub mod Tasks
pub mod Teams
