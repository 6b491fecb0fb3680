pub mod VInts
mod VIntRows
pub mod KeyedLaws
pub mod Tracked
pub mod MapSteps
pub mod Parts
pub mod MapLaws
