pub mod Batches
pub mod Numbers
pub mod Records
pub mod Views
