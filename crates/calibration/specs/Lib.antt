pub mod Card
pub mod Claims
pub mod Entry
pub mod Found
pub mod Laws
