pub mod Groups
pub mod Growth
pub mod OperatorGates
pub mod TwosComplement
