pub mod Out
pub mod In
pub mod Still
pub mod Rows
pub mod Writes
