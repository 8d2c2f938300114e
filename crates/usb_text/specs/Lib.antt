pub mod Head
pub mod Reply
pub mod Scheduled
pub mod Line
pub mod Reading
pub mod Plain
pub mod Lines
