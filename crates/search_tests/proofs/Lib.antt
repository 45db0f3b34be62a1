pub mod NewSeats
pub mod Readiness
