pub mod Names
pub mod Adds
pub mod Pattern
pub mod Places
pub mod Stored
pub mod Labels
pub mod NameParts
