pub mod Cases
pub mod Counts
pub mod Presence
pub mod Identical
