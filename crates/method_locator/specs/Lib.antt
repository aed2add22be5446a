pub mod Built
pub mod Steps
