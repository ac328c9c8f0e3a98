pub mod Exits
pub mod Faults
pub mod Lines
pub mod Services
pub mod Surroundings
pub mod Work
