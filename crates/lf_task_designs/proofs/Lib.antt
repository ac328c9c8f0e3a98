pub mod DesignSteps
mod Fronts
mod OpenedTexts
mod Reporting
