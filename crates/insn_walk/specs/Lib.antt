-- Top down: what a walk says, the walk, and what its inner steps promise each other.
pub mod Answer
pub mod Walk
pub mod Steps
