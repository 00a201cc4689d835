pub mod Limits
pub mod Passing
pub mod Runs
pub mod Sizes
pub mod Tallying
pub mod Turns
