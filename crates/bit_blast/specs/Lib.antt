pub mod Blasting
