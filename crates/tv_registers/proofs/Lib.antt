pub mod Chosen
pub mod Shares
pub mod Removed
pub mod PutBack
pub mod Looked
