mod Keeping
pub mod NettedSteps
pub mod Steps
