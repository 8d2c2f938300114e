pub mod Leads
mod Reported
