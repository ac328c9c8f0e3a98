pub mod Devices
pub mod Pieces
pub mod Exchanges
pub mod Endings
pub mod Progress
pub mod Connections
pub mod Laws
