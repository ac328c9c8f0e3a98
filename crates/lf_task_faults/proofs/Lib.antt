pub mod Ends
mod Shown
