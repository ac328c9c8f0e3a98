pub mod Tables
pub mod Reverting
pub mod Swapping
pub mod Tidying
pub mod Marking
pub mod Reporting
