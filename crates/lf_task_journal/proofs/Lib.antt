pub mod Naming
pub mod Early
