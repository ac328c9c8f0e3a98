pub mod Spelled
pub mod TeamDocument
pub mod Moved
pub mod ReadDocuments
pub mod LoadedTeams
pub mod Exports
