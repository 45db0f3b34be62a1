pub mod Deriving
pub mod Ends
pub mod Enough
pub mod Kept
pub mod Puts
pub mod Stacks
pub mod Steps
