mod Rows
mod Cutting
mod Kept
