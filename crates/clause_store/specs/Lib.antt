pub mod Choosing
pub mod Laws
pub mod Linked
pub mod NewWatch
pub mod Stores
pub mod Visiting
pub mod Watching
