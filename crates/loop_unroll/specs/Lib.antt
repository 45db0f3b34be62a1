pub mod Stating
pub mod Whole
pub mod Unrolled
