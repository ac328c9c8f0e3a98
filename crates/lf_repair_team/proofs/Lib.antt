mod Lines
pub mod Runs
pub mod Steps
pub mod Settings
mod Cells
mod Lists
pub mod Legal
mod Ids
mod Marking
pub mod StatsLemmas
pub mod Finding
mod Results
mod Reverting
mod OthersLegal
pub mod WithoutPlace
mod LastPass
pub mod OffSoft
mod ReachLemmas
mod MeanLemmas
pub mod Listing
mod Settling
mod Revisions
