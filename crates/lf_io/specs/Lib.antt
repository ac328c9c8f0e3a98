pub mod Output
pub mod Shelf
