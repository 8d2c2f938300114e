pub mod BusLemmas
pub mod ProfileLemmas
