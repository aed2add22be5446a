pub mod First
pub mod Occurs
pub mod Steps
