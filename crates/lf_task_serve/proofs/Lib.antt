pub mod Answering
mod LineSteps
