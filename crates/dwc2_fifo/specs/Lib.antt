pub mod Words
pub mod Row
pub mod Rx
pub mod Tx
pub mod Cut
pub mod Laws
