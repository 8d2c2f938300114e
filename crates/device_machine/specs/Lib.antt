pub mod Pipes
pub mod Bus
pub mod Packets
pub mod Session
pub mod Laws
