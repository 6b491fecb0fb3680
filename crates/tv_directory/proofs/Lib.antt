pub mod CutTexts
pub mod Recorded
pub mod ShowsNothing
pub mod Benches
pub mod BenchCalls
pub mod Resting
pub mod Crashed
