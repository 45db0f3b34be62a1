pub mod Chaining
pub mod Denying
pub mod Raising
pub mod Views
