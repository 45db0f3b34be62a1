pub mod Made
pub mod Faults
