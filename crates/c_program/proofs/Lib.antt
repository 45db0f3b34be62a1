pub mod Refusing
pub mod FirstRefusal
pub mod OneAnswer
pub mod Lacking
pub mod Dropped
pub mod Plain
pub mod Spelled
pub mod Differing
pub mod PlainNames
pub mod OneRefusal
mod Answered
