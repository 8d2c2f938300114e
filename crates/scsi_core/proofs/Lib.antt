pub mod Choices
pub mod Causes
pub mod CommandLemmas
