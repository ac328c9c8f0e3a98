pub mod Lines
pub mod ByIds
