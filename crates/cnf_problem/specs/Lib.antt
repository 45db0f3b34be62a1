pub mod Bounds
pub mod Chains
pub mod Edges
pub mod Flat
pub mod Formulas
pub mod Laws
pub mod Literals
pub mod Problems
