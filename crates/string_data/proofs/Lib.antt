pub mod Laws
pub mod Published
