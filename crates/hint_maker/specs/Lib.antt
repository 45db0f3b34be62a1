pub mod Adding
pub mod Lean
pub mod Walking
