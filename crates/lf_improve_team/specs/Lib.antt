pub mod FloorLengths
pub mod TeamImprovements
