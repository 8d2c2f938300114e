pub mod Setup
pub mod Toggles
