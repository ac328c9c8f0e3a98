pub mod Cells
pub mod Initial
pub mod Records
