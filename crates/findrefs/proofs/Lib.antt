pub mod Laws
pub mod Promised
pub mod Region
pub mod Merged
pub mod Whole
pub mod Answers
pub mod Alone
pub mod Clauses
