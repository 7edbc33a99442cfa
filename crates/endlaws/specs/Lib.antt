pub mod Rows
pub mod Taken
pub mod Reasons
pub mod Counted
pub mod Presence
pub mod Leaves
pub mod TakenCases
