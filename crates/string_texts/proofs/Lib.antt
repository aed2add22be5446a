pub mod Accepted
pub mod Keys
pub mod Whole
