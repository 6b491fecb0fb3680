pub mod Folders
pub mod Watching
