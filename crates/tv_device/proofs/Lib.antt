pub mod StoredFiles
pub mod LockNames
pub mod CopiedFiles
pub mod WatchLists
pub mod PersistedFiles
pub mod TouchedNames
pub mod CollectedFiles
