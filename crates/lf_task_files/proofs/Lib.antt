mod Beginning
mod Copying
pub mod DesignSteps
mod CommittedVerdicts
mod Looking
pub mod WorkSteps
pub mod KeptTexts
pub mod Measuring
