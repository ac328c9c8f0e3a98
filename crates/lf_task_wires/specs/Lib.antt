pub mod Netted
pub mod Readings
pub mod Wirelengths
