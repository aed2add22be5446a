-- Top down: the outcome of `codes`, the walk over all class data of a file, over one class data item, and what it leaves in lent words. Last,
-- what the private steps promise each other.
pub mod Found
pub mod Codes
pub mod Walk
pub mod Stored
pub mod Steps
