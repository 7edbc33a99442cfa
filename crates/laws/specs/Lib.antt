pub mod Above
pub mod Identical
pub mod Contract
