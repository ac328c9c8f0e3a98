pub mod Slots
pub mod Steps
pub mod Kept
pub mod Sessions
pub mod Bounds
pub mod Crash
pub mod Answered
pub mod Steppings
