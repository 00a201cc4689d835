pub mod Sides
pub mod Steps
pub mod Tests
