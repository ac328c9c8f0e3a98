pub mod Fields
pub mod Loop
pub mod Lines
pub mod Again
pub mod Within
pub mod Held
pub mod Fronts
pub mod Names
