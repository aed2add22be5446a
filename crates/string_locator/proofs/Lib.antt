pub mod LengthBytes
pub mod Laws
pub mod Keys
pub mod Area
