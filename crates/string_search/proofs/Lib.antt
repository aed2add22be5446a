pub mod GoodKeys
pub mod Owners
pub mod Finds
pub mod Faults
pub mod Matching
pub mod Listing
