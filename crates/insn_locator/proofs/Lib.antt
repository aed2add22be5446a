pub mod Climbing
pub mod Alone
pub mod Slots
pub mod Tables
pub mod Entries
pub mod Whole
pub mod Built
pub mod Clauses
