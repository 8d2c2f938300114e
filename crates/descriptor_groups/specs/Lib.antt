pub mod Parts
pub mod Groups
pub mod Reports
pub mod Examples
pub mod ReportExamples
