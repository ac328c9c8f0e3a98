pub mod Designs
pub mod Words
pub mod Saved
pub mod Reading
pub mod Writing
pub mod Pieces
pub mod Refused
pub mod WordEnds
