pub mod SegmentOrder
pub mod Reloads
pub mod SearcherLines
