pub mod Words
pub mod Graphs
pub mod Prepared
