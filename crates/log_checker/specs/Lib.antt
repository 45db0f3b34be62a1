pub mod Checking
pub mod Goodness
pub mod Graphs
pub mod Hints
pub mod Laws
pub mod Pairs
pub mod Refusals
