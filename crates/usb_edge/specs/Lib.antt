pub mod Stream
pub mod Memory
pub mod Outcome
pub mod System
pub mod Disk
pub mod DiskLaws
