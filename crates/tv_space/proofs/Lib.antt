pub mod Measures
pub mod CommitReports
pub mod Earlier
pub mod EveryPart
