pub mod Counted
pub mod Deeper
pub mod Merging
