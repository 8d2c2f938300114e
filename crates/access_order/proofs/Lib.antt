pub mod Lists
pub mod Lasting
pub mod Frames
pub mod Phases
pub mod Leads
pub mod Starts
