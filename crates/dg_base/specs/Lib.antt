pub mod MemState
pub mod Outside
pub mod Values
