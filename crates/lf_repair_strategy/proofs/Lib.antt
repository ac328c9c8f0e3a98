mod Targets
pub mod Ids
pub mod Lists
