pub mod Firsts
pub mod Occurs
