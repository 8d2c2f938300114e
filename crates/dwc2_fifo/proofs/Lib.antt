pub mod HeldLemmas
pub mod RowLemmas
pub mod WordsLemmas
pub mod CutLemmas
pub mod PlaceLemmas
pub mod LawLemmas
