pub mod Acting
pub mod Counting
pub mod Making
pub mod Nodes
pub mod Opening
pub mod Origins
mod Sections
pub mod Spelled
mod Static
pub mod Values
mod Walking
