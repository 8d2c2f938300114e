pub mod Ends
pub mod Laws
pub mod Ring
pub mod Slots
