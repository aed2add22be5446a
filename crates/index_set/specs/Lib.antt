pub mod Marked
pub mod Bits
pub mod Steps
