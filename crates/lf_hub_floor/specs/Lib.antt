pub mod Answers
pub mod QuerySessions
pub mod QueryAnswers
pub mod Laws
