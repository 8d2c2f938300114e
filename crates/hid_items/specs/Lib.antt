pub mod Item
pub mod State
pub mod Lengths
pub mod Reports
pub mod Worked
