pub mod Place
pub mod Ends
