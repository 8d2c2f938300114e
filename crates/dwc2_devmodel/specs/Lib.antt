pub mod Setups
pub mod Outcomes
