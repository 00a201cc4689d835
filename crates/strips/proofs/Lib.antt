pub mod All
pub mod Beside
pub mod Blocks
pub mod Covers
pub mod Merged
pub mod Passed
pub mod Placed
