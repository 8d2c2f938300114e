pub mod Field
pub mod Words
