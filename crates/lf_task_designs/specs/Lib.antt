pub mod Checks
pub mod Designs
pub mod Reporting
pub mod Texts
