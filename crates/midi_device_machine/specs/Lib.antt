pub mod Examples
pub mod Laws
pub mod Port
pub mod Runs
pub mod Sending
