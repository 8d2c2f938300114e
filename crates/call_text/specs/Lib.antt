pub mod Call
pub mod Reading
