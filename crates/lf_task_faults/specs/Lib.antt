pub mod Faults
pub mod Hints
pub mod Refusals
