pub mod Declarations
pub mod Statements
pub mod Programs
pub mod Machine
