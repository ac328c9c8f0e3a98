pub mod Alike
pub mod Laws
pub mod Slices
pub mod Lines
pub mod Cuts
