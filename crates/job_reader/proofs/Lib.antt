pub mod Breaks
pub mod Windows
pub mod Gone
pub mod Drafts
pub mod Heads
