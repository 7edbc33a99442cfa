pub mod Laws
pub mod RegisterLaws
pub mod Guards
pub mod Zeros
