pub mod BinLists
pub mod Bins
pub mod PinLists
