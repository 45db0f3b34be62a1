pub mod Seen
pub mod Evidence
pub mod Numbering
pub mod Relations
pub mod Edges
pub mod Graphs
pub mod Blocks
