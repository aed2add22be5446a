-- In the order in which a reader needs them.
pub mod Enough
pub mod Laws
