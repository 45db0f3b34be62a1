pub mod Tickets
pub mod Hinting
pub mod Merging
