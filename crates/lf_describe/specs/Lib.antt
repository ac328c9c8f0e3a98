pub mod Description
pub mod Parts
pub mod Written
