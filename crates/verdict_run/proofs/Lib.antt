pub mod Seats
pub mod Gathering
pub mod Places
pub mod Logs
pub mod Outcomes
pub mod Cutting
