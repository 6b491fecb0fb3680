pub mod StoredImages
pub mod ToldLines
pub mod RunsTold
pub mod ComputedCrashes
pub mod StoredSound
pub mod OpeningImages
