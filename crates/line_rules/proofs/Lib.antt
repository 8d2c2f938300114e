pub mod Walks
pub mod Judged
pub mod Found
pub mod Kept
pub mod Names
