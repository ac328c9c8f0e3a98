pub mod Command
pub mod Help
