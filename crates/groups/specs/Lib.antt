-- In the order in which a reader needs them.
pub mod Groups
pub mod Keys
pub mod Built
pub mod Join
pub mod Stretch
pub mod Steps
