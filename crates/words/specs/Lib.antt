-- In the order in which a reader needs them.
pub mod Padded
pub mod Rising
