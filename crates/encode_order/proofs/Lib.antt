pub mod Before
pub mod Cells
pub mod Choosing
pub mod Counting
pub mod Lines
pub mod Reading
