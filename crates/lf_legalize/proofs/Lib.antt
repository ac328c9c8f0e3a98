mod Beside
pub mod SoftLemmas
pub mod LevelLemmas
pub mod RunLemmas
pub mod RowLegal
pub mod RowFree
pub mod RowChoice
mod Narrow
mod Extents
mod Reaches
mod Rounds
mod Indexes
mod Members
