pub mod Faults
pub mod HasName
pub mod HasOrNot
pub mod Listing
pub mod Marks
pub mod Sifting
pub mod Exits
