pub mod Counting
pub mod Presence
pub mod Receiving
