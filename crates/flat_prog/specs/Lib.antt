pub mod Laws
pub mod Runs
pub mod Sections
pub mod Shape
