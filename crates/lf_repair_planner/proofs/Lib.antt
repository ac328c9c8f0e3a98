pub mod Grown
pub mod Looking
pub mod Packed
pub mod Shapes
mod Noting
