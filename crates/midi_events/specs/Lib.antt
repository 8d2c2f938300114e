pub mod Bytes
pub mod Events
pub mod Kept
pub mod Packing
pub mod Spoken
pub mod Table
pub mod Worked
