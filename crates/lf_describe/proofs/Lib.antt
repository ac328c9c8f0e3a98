mod Designs
mod Names
pub mod NoFloat
mod Numbered
mod Pieces
mod Totals
