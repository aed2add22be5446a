-- In the order in which a reader needs them.
pub mod Header
pub mod Told
pub mod Group
