pub mod State
pub mod Serial
pub mod Human
pub mod Music
pub mod World
pub mod Examples
