pub mod Marking
pub mod Walking
pub mod Bits
pub mod Gathering
