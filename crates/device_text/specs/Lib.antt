pub mod Answers
pub mod Trace
pub mod Job
pub mod Outcome
