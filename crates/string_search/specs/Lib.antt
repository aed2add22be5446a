-- In the order in which a reader needs them.
pub mod Search
pub mod Finds
pub mod Owner
pub mod Keys
pub mod Steps
