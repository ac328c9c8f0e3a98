pub mod Fitting
pub mod Parts
pub mod UnderWay
pub mod Steps
pub mod Finishing
pub mod OwnReplies
pub mod Connecting
