pub mod Serving
pub mod Saving
pub mod Servers
pub mod Served
pub mod Leftovers
