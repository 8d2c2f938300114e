pub mod Device
pub mod Examples
pub mod Laws
pub mod Reports
pub mod Session
