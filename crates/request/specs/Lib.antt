-- In the order in which a reader needs them.
pub mod Lines
pub mod Request
pub mod Steps
