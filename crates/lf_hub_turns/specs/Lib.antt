pub mod Queues
pub mod Fairness
