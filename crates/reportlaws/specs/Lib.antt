pub mod Rows
pub mod Does
