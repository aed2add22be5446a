-- The public documents, in the order in which a reader needs them. Nothing here names a crate of the program.
pub mod Numbers
pub mod Ids
pub mod MapList
pub mod CodeItem
pub mod ClassData
pub mod Formats
pub mod Instructions
