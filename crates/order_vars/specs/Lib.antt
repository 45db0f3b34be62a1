pub mod Atoms
pub mod Clauses
pub mod Growing
pub mod Holding
pub mod Links
pub mod Orders
pub mod Ties
