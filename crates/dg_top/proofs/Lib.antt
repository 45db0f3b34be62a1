mod Texts
mod Answered
mod Outcomes
mod Files
pub mod Verdicts
mod Alone
mod Excludes
mod Logs
pub mod Spellable
