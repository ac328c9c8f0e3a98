pub mod Placed
pub mod Saved
pub mod StartUnplaced
pub mod Entries
pub mod Responses
pub mod SavedStates
pub mod Working
