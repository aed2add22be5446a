pub mod Answers
pub mod Alone
pub mod Locate
pub mod Steps
