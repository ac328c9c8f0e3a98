pub mod LongReplies
pub mod Recording
pub mod LineCases
pub mod Runs
pub mod OwnReplies
pub mod QuerySessions
pub mod Executing
pub mod ClosingLines
