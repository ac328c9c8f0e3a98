pub mod Improvements
pub mod Openings
pub mod Works
