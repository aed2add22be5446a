pub mod Payloads
pub mod Headers
pub mod Steps
pub mod Published
pub mod Walks
