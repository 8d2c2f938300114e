pub mod ReadLemmas
pub mod ListLemmas
pub mod RoomLemmas
