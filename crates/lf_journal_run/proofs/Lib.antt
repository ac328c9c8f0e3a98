pub mod Comparing
pub mod Differences
pub mod Places
pub mod Sizes
