pub mod Alone
pub mod Answering
pub mod Ending
pub mod Readings
pub mod Safety
pub mod Standings
pub mod Writing
