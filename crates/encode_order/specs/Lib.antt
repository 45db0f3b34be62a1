pub mod Choices
pub mod Coherence
pub mod Counts
pub mod Laws
pub mod Sources
