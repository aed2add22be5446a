pub mod Map
pub mod LengthBytes
pub mod Steps
