pub mod Ahead
pub mod Events
pub mod Keeping
pub mod Roles
