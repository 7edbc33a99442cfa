pub mod Keeps
pub mod Collects
