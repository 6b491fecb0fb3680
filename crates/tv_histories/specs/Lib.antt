pub mod Callers
pub mod Histories
pub mod Marks
pub mod Merging
pub mod Races
pub mod Receipts
pub mod Shown
