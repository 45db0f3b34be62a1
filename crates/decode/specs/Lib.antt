pub mod Tables
pub mod Relations
pub mod Fitting
