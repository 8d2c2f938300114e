pub mod Registers
pub mod Run
pub mod Trace
