pub mod Names
pub mod Journals
pub mod Begun
