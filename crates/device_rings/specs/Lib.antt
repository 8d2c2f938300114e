pub mod Examples
pub mod Laws
pub mod Rings
pub mod Sizes
pub mod Slots
pub mod Capacities
