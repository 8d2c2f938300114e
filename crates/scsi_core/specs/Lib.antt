pub mod Sense
pub mod Command
pub mod Steps
pub mod Laws
pub mod Worked
