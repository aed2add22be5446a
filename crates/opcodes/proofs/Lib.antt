pub mod Everywhere
pub mod Laws
pub mod Packed
pub mod Published
pub mod Table
