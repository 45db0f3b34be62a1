pub mod Spelling
pub mod Encoding
pub mod Parts
pub mod Matching
pub mod Running
pub mod Directions
