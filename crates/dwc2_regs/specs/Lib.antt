pub mod Field
pub mod FieldTable
pub mod Word
pub mod Register
pub mod OffsetTable
pub mod Interrupts
pub mod Profile
