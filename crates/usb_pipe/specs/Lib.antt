pub mod Classes
pub mod Laws
pub mod Memory
pub mod Own
pub mod Rules
pub mod Said
