pub mod Length
pub mod Steps
