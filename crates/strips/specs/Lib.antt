pub mod Join
pub mod Laws
pub mod Strip
