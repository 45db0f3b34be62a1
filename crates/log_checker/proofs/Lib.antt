pub mod Atoms
pub mod Edges
pub mod Evidence
pub mod HintLaws
pub mod Outcomes
pub mod Pairs
pub mod Taking
