pub mod Behind
pub mod Comes
pub mod Counts
pub mod Tells
pub mod Few
