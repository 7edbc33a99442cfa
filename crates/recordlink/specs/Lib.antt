pub mod Joined
pub mod Demand
pub mod Restored
