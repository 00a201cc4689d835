pub mod Block
pub mod Entry
pub mod Rule
pub mod Words
