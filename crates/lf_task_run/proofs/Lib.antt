pub mod Ends
pub mod Named
pub mod Running
