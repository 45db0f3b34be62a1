pub mod Calls
pub mod Nodes
pub mod Rule
pub mod Lowering
pub mod Forms
