pub mod Rows
pub mod Does
pub mod Typed
