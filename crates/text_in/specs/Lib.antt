-- In the order in which a reader needs them.
pub mod Bind
pub mod Numbers
pub mod Words
pub mod Steps
