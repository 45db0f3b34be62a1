mod Files
pub mod Fits
pub mod Lists
mod Rows
