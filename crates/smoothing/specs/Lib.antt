pub mod Claims
pub mod Entry
pub mod Mixed
