pub mod Laws
pub mod Guards
