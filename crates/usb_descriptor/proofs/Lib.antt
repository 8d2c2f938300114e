mod Apart
mod Faults
mod Thirty
mod Served
mod Grouped
mod Led
