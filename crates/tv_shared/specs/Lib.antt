pub mod Begins
pub mod Closing
pub mod Counting
pub mod Hearing
pub mod Logs
pub mod Moves
pub mod Names
pub mod Raced
