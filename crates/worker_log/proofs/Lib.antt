pub mod Sorting
pub mod Rows
pub mod Hearing
pub mod Noting
pub mod Spending
pub mod Beginning
pub mod Testing
