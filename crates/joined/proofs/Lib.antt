pub mod Rule
pub mod RunRule
pub mod Runs
