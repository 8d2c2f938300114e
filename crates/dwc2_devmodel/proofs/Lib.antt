pub mod SetupLemmas
pub mod ReadLemmas
pub mod WriteLemmas
pub mod ListLemmas
