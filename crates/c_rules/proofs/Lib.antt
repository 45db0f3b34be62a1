pub mod Passing
pub mod Growing
pub mod Table
pub mod Wholes
pub mod JudgedTable
pub mod Routines
