pub mod Cuts
pub mod Fields
pub mod Kept
pub mod Rows
pub mod Steps
