pub mod RefusalText
pub mod RejectText
pub mod LogLines
pub mod Answers
pub mod Outcomes
pub mod Replies
pub mod Laws
pub mod Pairs
