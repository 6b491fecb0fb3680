pub mod Device
pub mod Pieces
pub mod Record
pub mod RecordLaws
pub mod Bench
pub mod Crashes
