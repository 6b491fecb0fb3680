pub mod ListLaws
pub mod FileNames
pub mod SegmentOrder
pub mod Reloading
