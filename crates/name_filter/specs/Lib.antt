-- In the order in which a reader needs them.
pub mod Names
pub mod HasName
pub mod Faults
pub mod Steps
