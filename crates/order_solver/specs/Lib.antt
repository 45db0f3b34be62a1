pub mod Fresh
pub mod Ordering
pub mod Parts
pub mod Working
