pub mod Sets
pub mod Listed
pub mod Starts
pub mod Whole
pub mod Inside
