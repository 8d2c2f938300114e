pub mod FieldLemmas
pub mod WordLemmas
pub mod OffsetLemmas
pub mod SetLemmas
