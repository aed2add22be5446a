pub mod Buckets
pub mod RegionEnd
pub mod Slots
pub mod Build
pub mod Walked
pub mod Inside
pub mod Named
