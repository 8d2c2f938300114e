pub mod Row
pub mod Kinds
pub mod Cut
pub mod Left
