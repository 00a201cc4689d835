pub mod Claims
pub mod Entries
pub mod Pairs
