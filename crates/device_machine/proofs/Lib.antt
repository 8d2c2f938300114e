pub mod Slots
pub mod Opens
pub mod Apart
pub mod Halts
