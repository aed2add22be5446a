pub mod Answers
pub mod Scan
pub mod Next
pub mod Steps
