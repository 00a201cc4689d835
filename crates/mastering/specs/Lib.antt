pub mod Claims
pub mod Entry
