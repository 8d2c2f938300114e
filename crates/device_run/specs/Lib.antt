pub mod Run
pub mod Owners
