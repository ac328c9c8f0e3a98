pub mod Faults
pub mod Laws
pub mod Passing
pub mod Reading
pub mod Splices
pub mod Tokens
