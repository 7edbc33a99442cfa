pub mod Commands
pub mod Dump
pub mod Fields
pub mod Line
pub mod Slots
