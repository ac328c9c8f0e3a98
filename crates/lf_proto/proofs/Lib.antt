pub mod Digits
pub mod Fields
pub mod Places
pub mod Fronts
pub mod Cuttings
pub mod Blanks
pub mod Printing
pub mod Reports
