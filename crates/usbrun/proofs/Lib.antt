pub mod Handed
pub mod Ordered
pub mod Turns
pub mod Endings
pub mod Exactly
