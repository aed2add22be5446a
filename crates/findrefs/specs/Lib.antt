-- The finder: its outcome, that answer and lent words are the outcome's, that its region is never refused, and that an entry stands by itself. The
-- promise on it, demand 3, is the crate `completeness`.
pub mod Find
pub mod Gives
pub mod Region
pub mod Alone
pub mod Steps
