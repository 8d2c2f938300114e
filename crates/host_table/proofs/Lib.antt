pub mod FifoLemmas
pub mod CountLemmas
pub mod WindowLemmas
pub mod WriteLemmas
pub mod TakerLemmas
pub mod BusLemmas
pub mod AnswerLemmas
pub mod AccessLemmas
