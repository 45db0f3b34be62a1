pub mod Wholes
pub mod Behind
pub mod Added
