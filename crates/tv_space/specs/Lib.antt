pub mod ReportLines
pub mod Reports
pub mod Measuring
pub mod Laws
