pub mod Slices
pub mod Lists
pub mod Groups
pub mod FileKeys
pub mod Steps
pub mod Built
pub mod Join
pub mod Found
