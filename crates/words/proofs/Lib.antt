pub mod Shared
pub mod Arms
pub mod Padded
