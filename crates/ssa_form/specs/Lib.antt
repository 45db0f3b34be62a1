pub mod Parts
pub mod Form
pub mod Laws
pub mod States
pub mod Walks
