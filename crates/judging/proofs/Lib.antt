pub mod Turning
pub mod Keeping
pub mod Refusing
pub mod Summaries
pub mod ReportLength
