pub mod Best
pub mod Leading
