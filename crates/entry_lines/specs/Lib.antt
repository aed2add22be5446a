-- In reading order: the line of an entry, what is lent and answered for it, and the step that refuses.
pub mod Line
pub mod Gives
pub mod Steps
