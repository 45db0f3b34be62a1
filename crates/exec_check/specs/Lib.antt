pub mod First
pub mod Running
pub mod Conditions
pub mod Broken
pub mod ThreadTests
pub mod EventActions
pub mod ActionTests
pub mod Done
