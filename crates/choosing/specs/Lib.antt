pub mod Leading
pub mod Order
