pub mod Keys
pub mod Counts
pub mod Sorted
