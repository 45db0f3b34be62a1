pub mod Entries
pub mod Forcing
pub mod Heaps
pub mod Restarts
pub mod Slots
pub mod Trails
