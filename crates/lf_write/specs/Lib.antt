pub mod Comparing
pub mod Export
pub mod Keeping
pub mod Laws
