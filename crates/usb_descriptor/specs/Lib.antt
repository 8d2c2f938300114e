pub mod Owners
pub mod Rules
pub mod Verdict
pub mod Set
pub mod Served
pub mod Strings
pub mod Examples
pub mod ReportExamples
