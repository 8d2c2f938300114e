mod Calls
pub mod Fours
mod Sessions
pub mod Taking
