pub mod ByteKinds
pub mod Sizes
pub mod Stream
pub mod Table
