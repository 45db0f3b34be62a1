pub mod Looks
pub mod Following
pub mod Logs
