pub mod Types
pub mod Exits
