pub mod Derivations
pub mod Parts
