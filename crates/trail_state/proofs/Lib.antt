pub mod Assigning
pub mod Cuts
pub mod Kept
pub mod Places
pub mod Swaps
pub mod Terms
pub mod Values
