pub mod Runs
pub mod TeamRepairs
pub mod Stats
pub mod CellEdits
