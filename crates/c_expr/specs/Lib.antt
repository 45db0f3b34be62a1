pub mod Words
pub mod Expressions
pub mod TypeWords
pub mod Machine
pub mod Parser
pub mod Closers
