pub mod Stream
pub mod Lines
pub mod Draft
pub mod Head
