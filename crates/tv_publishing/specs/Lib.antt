pub mod Lists
pub mod OneList
pub mod Reading
