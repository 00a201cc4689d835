pub mod All
pub mod Blocks
pub mod Labels
pub mod Named
pub mod Pick
pub mod Rows
pub mod Words
