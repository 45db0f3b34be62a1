pub mod Decisions
pub mod Searches
