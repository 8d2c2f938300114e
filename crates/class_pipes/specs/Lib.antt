pub mod Laws
pub mod Pipes
pub mod Requests
pub mod Worked
