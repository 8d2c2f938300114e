pub mod Overwrites
pub mod Window
pub mod Words
