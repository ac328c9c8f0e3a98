pub mod Lines
pub mod Stored
pub mod Replies
pub mod Turns
pub mod Connections
