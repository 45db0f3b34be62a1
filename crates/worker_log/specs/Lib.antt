pub mod Newness
pub mod Logs
pub mod Keeping
pub mod Laws
