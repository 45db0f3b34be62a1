pub mod Witness
pub mod Spelling
pub mod Faults
pub mod Lines
pub mod Machine
