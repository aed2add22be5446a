-- Demand 3 stands in one file: what is supposed, what is lent, what is delivered.
pub mod Completeness
