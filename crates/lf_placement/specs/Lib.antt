pub mod Placements
pub mod Steps
pub mod Laws
