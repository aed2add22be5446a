-- In the order in which a reader needs them.
pub mod Text
pub mod Write
