pub mod Emitting
pub mod Pieces
pub mod Calling
pub mod Tables
pub mod Instances
