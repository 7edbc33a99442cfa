pub mod Calls
pub mod Fields
