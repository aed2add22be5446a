pub mod Census
pub mod Payloads
