pub mod CommandLine
pub mod Dates
pub mod Lines
pub mod Words
pub mod Wrong
pub mod JsonText
pub mod ReportText
