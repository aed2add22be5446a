-- In the order in which a reader needs them.
pub mod Width
pub mod Kinds
