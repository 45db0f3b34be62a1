pub mod Heads
pub mod Logs
pub mod Proving
pub mod Pieces
pub mod Laws
