mod Performing
mod Running
mod TaskSteps
