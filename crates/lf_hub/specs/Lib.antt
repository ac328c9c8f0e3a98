pub mod Machine
pub mod World
pub mod Laws
pub mod Progress
