pub mod Claims
pub mod Forms
pub mod Rows
pub mod Sheet
