pub mod Few
pub mod Fronts
pub mod Marking
pub mod Reasons
pub mod Turns
pub mod Walking
