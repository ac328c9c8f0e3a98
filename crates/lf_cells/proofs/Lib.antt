pub mod Lists
pub mod Changes
pub mod Finding
pub mod Filling
pub mod Owners
pub mod Opened
pub mod Looks
pub mod TeamIds
