pub mod Printed
pub mod Only
pub mod Kept
pub mod Found
