pub mod Numbers
pub mod WordLaws
pub mod GrammarLaws
pub mod Feeds
pub mod LineLemmas
pub mod LineLaws
