pub mod Folded
pub mod Arguments
pub mod Pushed
pub mod ValueLaws
