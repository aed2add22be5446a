pub mod Answer
pub mod Build
pub mod RegionEnd
pub mod Slots
pub mod Steps
