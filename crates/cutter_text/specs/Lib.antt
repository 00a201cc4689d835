pub mod Forms
pub mod Picture
pub mod Header
pub mod Laws
pub mod Rows
