pub mod Answered
pub mod Traces
pub mod Told
pub mod Closed
pub mod Outcomes
