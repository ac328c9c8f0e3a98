pub mod Bins
pub mod Density
pub mod Pins
