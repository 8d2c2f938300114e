pub mod Order
pub mod Control
pub mod Phase
pub mod Laws
pub mod Examples
