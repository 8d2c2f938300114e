pub mod Apart
pub mod Found
pub mod Numbered
pub mod Capacities
